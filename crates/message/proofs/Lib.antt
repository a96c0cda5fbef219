pub mod Silent
pub mod Served
pub mod Moves
pub mod Laws
pub mod Kept
