pub mod Place
pub mod Places
