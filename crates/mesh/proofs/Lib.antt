pub mod HalfEdge
pub mod Some
pub mod Records
pub mod Open
pub mod Differ
