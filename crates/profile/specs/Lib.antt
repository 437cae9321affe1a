-- The bench profile. In reading order:
-- the rules and the judgement of a table, examples, and what the code answers
pub mod Profile
mod Examples
mod LabelExamples
pub mod Answers
-- when a rule is broken, by the trees
pub mod Rules
pub mod Parts
-- what the private functions establish of labels
pub mod Labels
