pub mod Halves
pub mod Stops
pub mod Learnt
