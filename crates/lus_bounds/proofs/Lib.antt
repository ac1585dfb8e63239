pub mod NameCounts
pub mod FirstPassed
pub mod Widths
