-- What the functions of an entry answer.
pub mod Outcomes
