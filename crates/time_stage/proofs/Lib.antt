pub mod Shuffles
pub mod Fetches
