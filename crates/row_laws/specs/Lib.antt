pub mod Choices
pub mod Laws
pub mod OneRow
pub mod Within
