pub mod Heads
pub mod Talks
pub mod Instructions
pub mod Reading
pub mod Paging
