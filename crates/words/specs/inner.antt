pub mod Regions
pub mod Order
pub mod Middle
pub mod Example
pub mod Digits
