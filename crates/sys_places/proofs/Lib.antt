pub mod Numbers
pub mod Cuts
pub mod Whose
pub mod Parts
pub mod Calls
pub mod Cells
pub mod Own
pub mod Held
