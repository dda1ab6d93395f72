pub mod Forest
pub mod Table
pub mod Sides
pub mod Gaps
