pub mod Parts
pub mod Contracts
pub mod Systems
pub mod Trees
pub mod SmallPrograms
pub mod Queries
pub mod Complete
pub mod Books
