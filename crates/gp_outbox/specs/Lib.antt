pub mod Flush
pub mod Segments
