-- Blanks and words of B3: REFERENCE, "Blanks and tokens"; the first part of Parser.dfy.
pub mod Answer
pub mod Bytes
pub mod Blanks
pub mod Tokens
pub mod Refused
pub mod CodeAnswers
pub mod Examples
pub mod RunLaws
pub mod BlankLaws
pub mod TokenLaws
pub mod Upstream
-- Measures of functions that call each other, for the proofs of upper crates:
pub mod Ranks
