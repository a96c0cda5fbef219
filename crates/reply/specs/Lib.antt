pub mod Written
pub mod Contents
pub mod Event
pub mod Off
