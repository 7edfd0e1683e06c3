pub mod Asked
pub mod Untouched
pub mod Taking
pub mod Unrecovered
pub mod Failures
