pub mod Contracted
pub mod FrameConditions
pub mod Asserted
pub mod Promised
pub mod Exact
