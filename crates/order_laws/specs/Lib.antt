pub mod Own
pub mod Rows
pub mod Laws
pub mod Needed
