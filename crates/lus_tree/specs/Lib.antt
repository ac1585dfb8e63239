pub mod Tree
pub mod View
pub mod Lookup
pub mod Numbers
pub mod Reason
