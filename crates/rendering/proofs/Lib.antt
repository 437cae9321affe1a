-- The laws that the proofs of the methods cite.
pub mod Writing
pub mod Walk
pub mod Words
pub mod Sequences
pub mod ExprPrints
pub mod StmtPrints
pub mod EntryAnswers
mod Named
