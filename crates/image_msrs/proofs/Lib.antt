pub mod Stores
pub mod Switches
