pub mod Source
pub mod Rows
pub mod Sources
pub mod Parts
