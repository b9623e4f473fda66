pub mod Acts
pub mod Conditions
pub mod Status
pub mod Pending
