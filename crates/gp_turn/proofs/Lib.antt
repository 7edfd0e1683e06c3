pub mod Sums
pub mod Ranges
pub mod Histories
pub mod Views
pub mod Turns
pub mod Shares
pub mod Rests
pub mod Owners
