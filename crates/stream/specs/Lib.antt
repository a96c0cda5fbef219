pub mod Cut
pub mod Signed
pub mod Line
