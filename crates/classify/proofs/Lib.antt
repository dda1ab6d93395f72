pub mod Sound
pub mod Triangle
pub mod Outcomes
pub mod Angles
pub mod Fitting
pub mod Worked
