pub mod Forwards
pub mod Alone
pub mod Conditions
