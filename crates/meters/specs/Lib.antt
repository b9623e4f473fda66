pub mod Registers
pub mod Details
pub mod Telling
pub mod Changing
pub mod Examples
