pub mod Gotten
pub mod Terms
