pub mod Sent
pub mod Owners
pub mod Publishers
pub mod Clients
