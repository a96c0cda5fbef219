pub mod Edges
pub mod Ranges
