pub mod Resolved
pub mod Views
pub mod Numbered
pub mod Modes
pub mod Sourced
pub mod Laws
pub mod OwnSources
pub mod Walked
