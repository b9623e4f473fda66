pub mod Crossing
pub mod Turning
