pub mod Pages
pub mod Reading
pub mod Views
pub mod Outcomes
pub mod Standing
pub mod Moves
