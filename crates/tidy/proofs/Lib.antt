-- What the proofs of several functions cite.
pub mod Answers
pub mod TidyLaws
-- What is proved of the definitions; `Claims` says it, each claim by citation.
pub mod CaseLaws
pub mod Claims
