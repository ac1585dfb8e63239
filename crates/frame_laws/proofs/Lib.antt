pub mod Free
pub mod Along
pub mod Listed
pub mod Taken
pub mod OneFrame
pub mod Kept
pub mod KeptValues
pub mod Squeezed
