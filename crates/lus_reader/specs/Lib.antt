pub mod View
pub mod Look
pub mod Operators
pub mod Outcome
pub mod Marks
pub mod Told
pub mod Values
pub mod Leads
