pub mod Agreeing
pub mod Orders
pub mod Places
pub mod Seen
pub mod Whole
