-- Where a reading's refusals lie and which they are: the rules refuse by a number of `ByRule`, at a place of at most the text's length.
pub mod Entries
