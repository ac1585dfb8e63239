pub mod Seats
pub mod SlotParts
pub mod Seen
