pub mod Laws
pub mod Texts
pub mod Sources
pub mod Frames
pub mod Instants
pub mod Small
