pub mod Clocks
pub mod Streams
pub mod Names
pub mod Owner
