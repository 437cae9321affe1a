-- What is proved of what is read; `Claims` says it, each claim by citation.
-- The operator grammar and its token parser:
pub mod Laws
-- The reading rules of expressions against the token parser:
pub mod Bridge
-- What becomes of an outcome as it is told:
pub mod Told
-- What is read passes the check over the same text; by which refusals, and where, a reading is refused; how many words a tree has; where a rule
-- is opened; a table's length:
pub mod Inside
pub mod Refusals
pub mod Size
pub mod Depth
pub mod Tables
pub mod Claims
