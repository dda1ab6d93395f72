pub mod Layout
pub mod Invariant
pub mod Settling
pub mod Moves
pub mod Answers
