pub mod Kept
pub mod Steady
pub mod Laws
