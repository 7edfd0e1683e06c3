pub mod Passes
pub mod Calls
pub mod Sessions
pub mod Own
pub mod Changes
