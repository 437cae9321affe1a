-- A rule is opened where its first token is kept: each level of a gallery keeps nothing where the others do.
pub mod Answers
pub mod Expressions
pub mod Statements
pub mod NoLevel
