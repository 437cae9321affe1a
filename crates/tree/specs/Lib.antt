-- The tree kinds of B3 and the words that stand for them in a table. In reading order:
-- what the promises speak of
pub mod Ast
pub mod Resolve
pub mod Tags
pub mod Words
pub mod Codes
pub mod Kind
pub mod Limits
pub mod Check
pub mod KindNumbers
pub mod KindCodes
pub mod Outline
pub mod Tally
pub mod Counted
-- what is proved, and examples
pub mod Refused
pub mod Held
pub mod Claims
mod Examples
mod WordExamples
mod TallyExamples
mod OutlineExamples
mod HeldExamples
-- what the code notes, its rows and its stack
pub mod Notes
pub mod Rows
pub mod Stack
pub mod StackLaws
-- what is expected and its kinds
pub mod ExpectedKinds
-- a contradiction's consequence; the trees of each kind, the laws of a walk over a table, and the theorems' proofs
pub mod Clash
pub mod Trees
pub mod Forms
pub mod FormLaws
pub mod Opened
pub mod Walk
pub mod MapWords
pub mod WordCount
pub mod Accepted
pub mod OutlineLaws
pub mod OutlineTrees
pub mod ProgramOutline
pub mod CountedTrees
pub mod CountPlaces
pub mod CountLaws
pub mod Tables
pub mod HeldLaws
