pub mod Owners
pub mod Meanings
