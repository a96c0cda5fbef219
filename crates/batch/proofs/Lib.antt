pub mod Turns
pub mod Feeds
pub mod Parts
pub mod Kept
