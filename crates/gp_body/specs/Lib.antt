pub mod Steps
pub mod Readings
pub mod Wholes
pub mod Alls
pub mod Plans
pub mod Bodies
pub mod Laws
pub mod Chunks
