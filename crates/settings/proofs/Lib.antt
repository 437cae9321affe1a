-- What is proved of the definitions; `Claims` says it, each claim by citation.
pub mod RefusalLaws
pub mod FieldLaws
pub mod ContentLaws
pub mod AnswerLaws
pub mod LayoutLaws
pub mod RecordLaws
pub mod OutcomeLaws
pub mod ReadLaws
pub mod WriteLaws
pub mod Claims
