pub mod Lists
pub mod Streams
pub mod Walked
pub mod Views
pub mod Systems
