-- What tidy answers, for every text and output.
pub mod Tidy
pub mod Errors
pub mod Answers
pub mod Cases
pub mod Examples
