pub mod Bases
pub mod Small
pub mod Laws
pub mod Worked
pub mod Complete
