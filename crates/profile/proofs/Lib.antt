-- What is proved of the definitions; `Claims` says it, each claim by citation.
pub mod PlaceLaws
pub mod RuleLaws
pub mod VerdictLaws
-- laws of what the code keeps
pub mod LabelLaws
pub mod JudgeLaws
pub mod PartLaws
pub mod Claims
