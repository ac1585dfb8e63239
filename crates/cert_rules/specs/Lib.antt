pub mod Facts
pub mod Faults
pub mod Laws
pub mod View
pub mod Reasons
pub mod Kept
pub mod Answers
