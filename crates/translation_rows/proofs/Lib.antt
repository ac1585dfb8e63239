pub mod Asserting
pub mod Against
pub mod Assuming
