pub mod First
pub mod Rows
pub mod Table
pub mod InNumbers
