pub mod Routing
pub mod Views
pub mod Trace
pub mod Moves
pub mod Completeness
pub mod Polls
