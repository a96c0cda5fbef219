pub mod Lookup
pub mod Looks
