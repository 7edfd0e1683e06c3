pub mod Calling
pub mod Publishing
pub mod Keeping
pub mod Pages
pub mod Listening
pub mod Moving
pub mod Lining
pub mod Pursuing
