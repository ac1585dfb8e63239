pub mod Cutting
pub mod Words
pub mod Traces
pub mod Reading
pub mod Laws
