pub mod Resolvings
pub mod Rows
pub mod Laws
