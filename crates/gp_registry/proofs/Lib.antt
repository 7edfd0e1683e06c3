pub mod Turns
pub mod Numbers
pub mod Searching
pub mod Standing
pub mod Taking
pub mod Finding
pub mod Serving
pub mod Paging
mod Planning
pub mod Changing
