pub mod Standing
pub mod Choices
pub mod AtWork
pub mod Ahead
pub mod Asked
