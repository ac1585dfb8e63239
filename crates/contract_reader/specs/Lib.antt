pub mod Begin
pub mod Parts
pub mod Told
pub mod Values
