-- What the proofs of several functions cite.
mod Places
mod Following
mod Chaining
mod Classifying
