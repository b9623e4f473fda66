pub mod Memory
pub mod Passing
pub mod Following
pub mod Progress
