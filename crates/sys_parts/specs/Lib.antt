pub mod Values
pub mod Constants
pub mod Parts
