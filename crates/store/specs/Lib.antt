pub mod Words
pub mod Meaning
