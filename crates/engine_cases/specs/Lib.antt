pub mod Playable
