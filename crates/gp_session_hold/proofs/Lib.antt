pub mod Owning
pub mod Rowing
pub mod Opening
pub mod Parting
pub mod Putting
pub mod Turning
pub mod Following
