pub mod Paths
pub mod Induction
pub mod Sound
pub mod NoAnswer
pub mod Unbroken
pub mod Terms
