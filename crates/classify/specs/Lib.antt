pub mod Match
pub mod Classes
pub mod Fits
pub mod Call
pub mod inner
