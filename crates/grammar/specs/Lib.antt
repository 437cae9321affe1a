-- What is read. The operator grammar (REFERENCE, "The operator grammar") and its token parser.
pub mod Words
pub mod Tokens
pub mod Grammar
pub mod OperatorTrees
pub mod Parser
-- The reading rules of expressions, statements and declarations (REFERENCE, "The reading rules"), and the entries; then what is proved of all.
pub mod Steps
pub mod StepLaws
pub mod Rules
pub mod Statements
pub mod Declarations
pub mod Reading
pub mod TreeRead
pub mod ClaimTerms
pub mod Examples
pub mod ReadingExamples
pub mod ProgramExamples
pub mod RefusalExamples
pub mod CommentExamples
