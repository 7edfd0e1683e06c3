pub mod Lines
pub mod Steps
pub mod Scans
pub mod Heads
pub mod Texts
pub mod Targets
pub mod Writable
