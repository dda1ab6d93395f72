pub mod Numerals
pub mod Places
pub mod Forms
pub mod Determined
