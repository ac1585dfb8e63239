pub mod Main
pub mod Program
pub mod Refusals
pub mod Properties
pub mod Reads
