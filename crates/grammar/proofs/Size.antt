-- The tree that is read of a text has at most five words for each byte, and five more.
pub mod Sizes
pub mod Answers
pub mod Expressions
pub mod Statements
pub mod Declarations
pub mod Entries
