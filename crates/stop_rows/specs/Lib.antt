pub mod Numbers
pub mod Conflicts
