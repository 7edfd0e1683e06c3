pub mod Spellings
pub mod Events
pub mod Controls
