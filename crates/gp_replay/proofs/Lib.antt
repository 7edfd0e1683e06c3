pub mod Lists
pub mod Lines
pub mod Noting
pub mod Plays
pub mod Saying
