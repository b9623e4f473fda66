pub mod Bounds
pub mod Plan
pub mod Search
