pub mod Faults
pub mod Ending
pub mod Going
pub mod Gathering
