pub mod Buckets
pub mod Chains
pub mod Items
pub mod Marks
pub mod Searches
pub mod Tips
