pub mod Keeps
pub mod Stages
pub mod Places
pub mod Steps
pub mod Changes
