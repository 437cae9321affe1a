-- Numbers for names. In reading order:
-- what the contract of `number_spans` speaks of, what is proved, and examples
pub mod Names
pub mod Claims
mod Examples
-- the laws of numbers and of the parts of a text
pub mod NumberLaws
pub mod Parts
-- classes of places with two keys; what the private functions establish
pub mod Classes
pub mod ClassLaws
pub mod Spans
-- the laws that their proofs cite
pub mod WriteLaws
pub mod PairLaws
pub mod BlockLaws
pub mod SpanLaws
pub mod EqualLaws
pub mod RankLaws
pub mod RoomLaws
