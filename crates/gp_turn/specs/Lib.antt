pub mod Passes
pub mod Fields
pub mod Causes
pub mod Rule
pub mod Steps
