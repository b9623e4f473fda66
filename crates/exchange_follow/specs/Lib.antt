pub mod Following
pub mod Handling
pub mod Followers
pub mod Pieces
