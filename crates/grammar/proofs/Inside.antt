-- What the rules give of a text: every name lies inside the text, so the check accepts the words of what is read; and so does every place.
pub mod Answers
pub mod Expressions
pub mod Statements
pub mod Declarations
pub mod Accepted
