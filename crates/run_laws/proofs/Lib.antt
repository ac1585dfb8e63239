pub mod Mend
pub mod MendedRun
pub mod Sources
pub mod Texts
pub mod OneRun
