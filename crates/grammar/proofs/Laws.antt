-- What is proved of the grammar and its parser.
pub mod ParserSteps
pub mod Looks
pub mod Sound
pub mod SoundOperand
pub mod SoundWhole
pub mod Stops
pub mod Complete
pub mod CompleteOperand
pub mod CompleteWhole
pub mod Exact
pub mod Every
pub mod Cut
pub mod Views
pub mod Pieces
pub mod Limited
