pub mod Lengths
pub mod Laws
pub mod Data
pub mod Off
