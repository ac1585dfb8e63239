pub mod Names
pub mod Passed
pub mod Checked
pub mod Widths
