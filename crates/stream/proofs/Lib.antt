pub mod Codes
pub mod Cuts
