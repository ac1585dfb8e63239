pub mod Counts
pub mod Held
pub mod MemoryShelf
pub mod MemorySink
pub mod Never
pub mod System
pub mod Told
pub mod Written
