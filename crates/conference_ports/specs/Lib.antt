pub mod Owners
pub mod Indexed
