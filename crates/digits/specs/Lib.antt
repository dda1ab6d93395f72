pub mod Digits
pub mod Taken
pub mod inner
