-- What the code of the reader promises, and that it reads by the operator grammar.
pub mod Flat
pub mod TreeRead
pub mod Entry
pub mod Answered
pub mod Claims
