pub mod Three
pub mod Triangle
