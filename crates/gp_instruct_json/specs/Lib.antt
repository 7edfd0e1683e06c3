pub mod Faults
pub mod Kinds
pub mod Members
pub mod Bodies
pub mod Answers
pub mod Pages
