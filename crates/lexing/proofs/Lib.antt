-- What the proofs of several functions cite.
pub mod Lists
pub mod Comments
pub mod Returns
pub mod Refusals
pub mod UpstreamBlanks
pub mod Claims
pub mod Naturals
mod Named
