pub mod Seating
pub mod Ordered
pub mod Placed
pub mod Counted
pub mod Once
pub mod Joined
pub mod Sighted
pub mod Noted
