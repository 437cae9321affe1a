-- The walk over nodes: the words in the table, the frames on the stack, and the loop.
pub mod Words
pub mod Frames
pub mod Walk
