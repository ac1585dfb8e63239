pub mod OwnGraph
pub mod Summaries
pub mod Circles
pub mod Nodes
pub mod Modes
pub mod Closure
pub mod Laws
