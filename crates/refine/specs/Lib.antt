pub mod Frames
pub mod Errors
