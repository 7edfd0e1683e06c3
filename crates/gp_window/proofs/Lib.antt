pub mod Chaining
pub mod Marking
pub mod Walking
pub mod Tipping
pub mod Searching
