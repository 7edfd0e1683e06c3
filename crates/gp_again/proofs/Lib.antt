pub mod Linking
pub mod Asking
