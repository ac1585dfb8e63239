pub mod Sights
pub mod Texts
pub mod Views
pub mod Laws
