pub mod Told
pub mod Generated
