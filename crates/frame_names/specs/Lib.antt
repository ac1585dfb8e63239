pub mod Known
pub mod Walk
pub mod Slots
pub mod Views
