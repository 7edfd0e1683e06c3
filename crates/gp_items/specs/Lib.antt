pub mod Faults
pub mod Names
pub mod Formats
pub mod Items
