pub mod Orders
pub mod OrderRows
pub mod PastRows
