pub mod Layouts
pub mod Fitting
