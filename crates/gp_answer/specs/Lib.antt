pub mod Framings
pub mod Answers
pub mod Refusals
pub mod Frames
