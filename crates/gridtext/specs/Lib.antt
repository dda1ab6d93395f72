pub mod Lines
pub mod Text
pub mod Answer
pub mod Lists
pub mod Gridlabel
pub mod inner
