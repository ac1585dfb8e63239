pub mod Integers
pub mod Laws
pub mod Worked
pub mod Complete
pub mod Books
