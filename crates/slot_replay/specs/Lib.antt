pub mod Conditions
pub mod Parts
pub mod Answer
pub mod Shown
pub mod Marks
pub mod Agreement
pub mod Following
