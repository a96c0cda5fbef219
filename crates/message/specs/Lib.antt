pub mod Message
pub mod Moves
