pub mod Rows
pub mod Opens
pub mod Puts
pub mod Leaves
pub mod Streams
pub mod Polls
pub mod Headline
