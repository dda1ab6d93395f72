pub mod Emitted
pub mod Rows
pub mod Emitting
