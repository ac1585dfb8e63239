pub mod Named
pub mod NamedView
pub mod Faults
pub mod Told
pub mod Slots
pub mod Instants
pub mod Answer
