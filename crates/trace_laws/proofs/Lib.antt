pub mod Named
pub mod Narrow
pub mod Replayed
pub mod Fine
pub mod Written
