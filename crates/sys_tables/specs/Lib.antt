pub mod Tabled
pub mod Views
pub mod Numbers
pub mod Seats
pub mod Known
pub mod Rights
pub mod Made
