pub mod Rows
pub mod Read
pub mod Printed
pub mod Held
pub mod Unpacked
