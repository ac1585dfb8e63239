pub mod Splits
pub mod Cuts
pub mod Parts
