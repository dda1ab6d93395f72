pub mod Round
pub mod Laying
pub mod Over
pub mod Lines
