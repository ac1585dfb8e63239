pub mod Paths
pub mod Searches
pub mod Rounds
pub mod OnCircles
pub mod Contracted
