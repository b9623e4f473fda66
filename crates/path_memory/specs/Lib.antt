pub mod Matching
pub mod Memory
