pub mod Cuts
pub mod Placed
pub mod Fits
