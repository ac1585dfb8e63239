pub mod Conditioned
pub mod Named
pub mod Views
pub mod Laws
