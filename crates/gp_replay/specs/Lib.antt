pub mod Statuses
pub mod Scripts
pub mod Reads
pub mod Outputs
pub mod Replays
pub mod Logs
pub mod Loads
