pub mod Words
pub mod Parts
pub mod Rules
pub mod Files
pub mod Picks
