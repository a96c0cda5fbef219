pub mod Change
pub mod Effect
