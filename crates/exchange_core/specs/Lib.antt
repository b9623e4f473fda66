pub mod Working
pub mod Boards
pub mod Tools
pub mod Ahead
