pub mod Quests
pub mod Talks
pub mod Rows
pub mod Polls
