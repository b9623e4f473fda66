pub mod Telling
pub mod Changes
pub mod Outcomes
pub mod Running
pub mod Commands
pub mod Endings
pub mod Summary
