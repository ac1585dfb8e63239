pub mod Ring
pub mod Within
pub mod Quotients
