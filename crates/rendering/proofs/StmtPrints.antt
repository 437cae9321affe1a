-- The prints of statements by their words.
pub mod Pieces
pub mod Tags
pub mod Tests
pub mod Forms
