pub mod Numbers
pub mod Values
pub mod Joined
pub mod Shown
pub mod Evaluated
pub mod Defaults
