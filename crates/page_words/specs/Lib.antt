pub mod PageWords
pub mod Meaning
