pub mod Delay
pub mod Speech
pub mod Highways
