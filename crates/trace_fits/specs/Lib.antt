pub mod Slotted
pub mod Filling
pub mod Views
pub mod Tables
pub mod Given
pub mod Refused
pub mod Walked
