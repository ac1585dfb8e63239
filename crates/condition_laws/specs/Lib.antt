pub mod Conditions
pub mod Breaks
pub mod Laws
pub mod Within
pub mod Following
