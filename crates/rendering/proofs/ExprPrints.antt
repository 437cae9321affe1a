-- The prints of expressions by their words.
pub mod Forms
pub mod Tags
