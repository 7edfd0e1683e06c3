pub mod Served
pub mod Bodies
pub mod Heads
pub mod Requests
pub mod Polls
