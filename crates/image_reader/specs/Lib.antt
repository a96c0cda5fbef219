pub mod Read
pub mod Load
