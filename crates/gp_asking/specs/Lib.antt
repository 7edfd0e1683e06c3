pub mod Asking
pub mod Failing
