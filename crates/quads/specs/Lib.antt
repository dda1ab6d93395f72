pub mod Diagonal
pub mod Union
pub mod Merge
pub mod Order
pub mod Call
pub mod Arranged
pub mod inner
