pub mod Indexed
pub mod Numbered
pub mod Kinds
pub mod Plans
pub mod Walked
pub mod Printed
pub mod Places
