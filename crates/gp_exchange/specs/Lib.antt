pub mod Views
pub mod Heads
pub mod Hearing
pub mod Ends
pub mod Finds
pub mod Answers
pub mod Standing
pub mod Moves
