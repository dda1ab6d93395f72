pub mod Listing
pub mod Sorting
pub mod inner
