pub mod Handshakes
pub mod Unread
pub mod Ends
pub mod Frames
pub mod Heads
pub mod Cuts
pub mod Sent
pub mod Fragments
