pub mod Rooms
pub mod Keeps
pub mod Nobody
pub mod Placed
pub mod Frames
pub mod Exact
