-- Demand 3: what is proved of reading and printing together. In reading order:
-- what is claimed, and the depth that it speaks of
pub mod Nesting
pub mod ReadBack
pub mod ReadPrinted
pub mod Claims
mod Examples
mod LimitExamples
mod DepthExamples
pub mod Trials
-- print to derivation: the levels of the grammar, and the one table over two operators and a side
pub mod Levels
pub mod Operators
pub mod Table
-- print to tokens
pub mod FaithfulNames
pub mod Decimal
pub mod Cutting
-- both, by induction on the tree
pub mod Printed
pub mod PrintedOperators
pub mod PrintedCalls
pub mod Derived
-- naturals, and names as bytes
pub mod SmallNaturals
pub mod PrintedNames
