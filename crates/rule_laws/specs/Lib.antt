pub mod Laws
pub mod Fitting
pub mod Types
pub mod Declarations
