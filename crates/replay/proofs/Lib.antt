pub mod Errors
pub mod Runs
