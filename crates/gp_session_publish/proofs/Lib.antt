pub mod Rows
pub mod Hearing
pub mod Taking
pub mod Standing
pub mod Turning
pub mod Completing
