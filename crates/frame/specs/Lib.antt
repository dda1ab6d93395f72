pub mod Stages
pub mod Call
pub mod Examples
pub mod Single
pub mod inner
