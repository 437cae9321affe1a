-- What is proved of the definitions; `Claims` says it, each claim by citation.
pub mod StrengthLaws
pub mod Claims
