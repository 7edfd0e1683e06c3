pub mod Views
pub mod Answers
pub mod Seeks
pub mod Waits
pub mod Openings
pub mod Laws
pub mod Chains
