pub mod Conditioned
pub mod Views
pub mod Laws
pub mod Walked
