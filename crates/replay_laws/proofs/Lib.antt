pub mod Lists
pub mod Covered
pub mod Answers
pub mod Choices
pub mod Names
pub mod Replayed
