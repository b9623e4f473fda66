pub mod Limits
pub mod Sizes
pub mod Sound
pub mod Orders
pub mod Responses
pub mod Kept
pub mod OctetStorage
pub mod InputStorage
