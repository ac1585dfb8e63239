pub mod Occurring
pub mod Views
