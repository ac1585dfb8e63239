pub mod Lines
pub mod Steps
pub mod CutSteps
pub mod PastSteps
