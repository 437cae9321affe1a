-- What the proofs of several functions cite.
mod RowLaws
mod RunSteps
mod FrameLaws
mod Walking
mod Outlines
mod AcceptedOutline
mod OutlineAnswers
