pub mod Part
pub mod Frame
pub mod Turn
pub mod Evaluation
pub mod Past
pub mod Outcome
pub mod Laws
