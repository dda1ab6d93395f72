pub mod Outcomes
pub mod Known
