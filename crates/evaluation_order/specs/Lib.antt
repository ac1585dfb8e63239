pub mod Numbered
pub mod Givers
pub mod GiverViews
pub mod Ordered
pub mod Steps
