pub mod Asked
pub mod Sought
pub mod Shut
pub mod Turned
pub mod Told
pub mod Stepped
pub mod Advancing
pub mod Polled
