-- The code that prints, held to the prints of the crate `layout`: what is asked of each function, and what is proved of `render`.
pub mod Tables
pub mod TableLaws
pub mod Errors
pub mod Render
pub mod Claims
pub mod Wrote
pub mod OperatorWords
pub mod Settings
pub mod Parts
pub mod ExprParts
pub mod Sequences
pub mod StmtParts
pub mod DeclParts
