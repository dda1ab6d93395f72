pub mod HalfEdge
pub mod Lists
pub mod Positions
pub mod Cells
pub mod Twins
pub mod inner
