mod Small
mod Steady
mod Declarations
mod Kept
mod Worths
mod Distinct
mod Constants
