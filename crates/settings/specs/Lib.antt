-- Print settings in bytes: the layout of a record, and what reading and writing answer.
pub mod Errors
pub mod Answers
pub mod Fields
pub mod Records
pub mod Laid
pub mod Examples
