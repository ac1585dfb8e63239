pub mod Parts
pub mod Walk
pub mod Items
pub mod Cells
pub mod Table
pub mod Sought
pub mod Program
