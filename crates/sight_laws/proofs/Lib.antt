pub mod Names
pub mod Calls
pub mod Kept
pub mod Stages
pub mod Rooms
pub mod There
pub mod Defaults
