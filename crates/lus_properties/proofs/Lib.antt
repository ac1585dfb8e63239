pub mod FirstToken
pub mod Places
pub mod Depths
pub mod Contracts
pub mod Listed
