pub mod Order
pub mod SlotReads
pub mod Searching
pub mod Table
pub mod Stillness
pub mod Turns
pub mod InTurn
pub mod Agreement
