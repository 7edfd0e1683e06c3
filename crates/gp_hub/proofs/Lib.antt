pub mod Counts
pub mod Owned
pub mod Changed
