pub mod OneOrder
pub mod OneEvaluation
pub mod FirstPast
pub mod OneOutcome
pub mod Turns
