pub mod Access
pub mod Alike
