pub mod Sound
pub mod Growing
pub mod Grown
pub mod Tellings
pub mod Verdicts
pub mod Turns
pub mod Interleaved
