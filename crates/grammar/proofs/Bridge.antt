-- The reader against the token parser: one simulation between the byte rules (Rules.antt) and the parser (Parser.antt), on the tokens of the
-- text with each natural past the limit counted as illegal.
pub mod Relation
pub mod Places
pub mod Answers
pub mod Tests
pub mod Trees
pub mod Tails
pub mod NoOperand
pub mod Series
pub mod AfterName
pub mod WordOperand
pub mod Operand
pub mod ExprLevels
pub mod WholeText
pub mod Limits
