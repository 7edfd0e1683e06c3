pub mod Kept
pub mod Digits
pub mod Planning
pub mod Values
pub mod Alone
pub mod Tokens
pub mod Paths
pub mod Conditions
