pub mod Told
pub mod Marked
pub mod Agreed
pub mod Followed
