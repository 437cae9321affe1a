-- The prints of B3: PrintUtil.dfy and Printer.dfy.
pub mod Text
pub mod PrintUtil
pub mod Settings
pub mod Indents
pub mod Printer
pub mod Statements
pub mod Program
pub mod LineLaws
pub mod Examples
pub mod BracketExamples
pub mod FormExamples
pub mod ContextExamples
pub mod StatementExamples
pub mod ProgramExamples
pub mod SettingsExamples
