-- The prints of the entries: what each answers, and what is proved of that.
pub mod Entries
pub mod BySettings
pub mod EntryLaws
pub mod PrintCases
pub mod ByCases
pub mod LinePrints
pub mod SettingsExamples
pub mod Claims
pub mod Delivery
