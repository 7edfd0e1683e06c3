pub mod Steps
pub mod Texts
pub mod Members
pub mod Payloads
pub mod Fields
pub mod Responses
