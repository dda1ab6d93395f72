pub mod Ordering
pub mod Merging
pub mod Search
