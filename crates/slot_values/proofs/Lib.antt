pub mod Stepwise
pub mod Quickly
pub mod Mismatched
pub mod ByZero
pub mod WorthSeen
pub mod WorthOff
pub mod FrameRow
pub mod Parts
