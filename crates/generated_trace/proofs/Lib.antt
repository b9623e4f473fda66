pub mod Cutting
pub mod Fields
pub mod Saying
pub mod Told
