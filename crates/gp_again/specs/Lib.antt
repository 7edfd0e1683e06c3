pub mod Texts
pub mod Views
pub mod Quests
pub mod Links
