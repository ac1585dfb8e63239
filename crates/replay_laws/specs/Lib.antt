pub mod OverSlots
pub mod Chosen
pub mod Replayed
