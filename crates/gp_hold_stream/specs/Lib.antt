pub mod States
pub mod Pages
