pub mod Joined
pub mod OutputReads
