pub mod Rearranging
pub mod Map
