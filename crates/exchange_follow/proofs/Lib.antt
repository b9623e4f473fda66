pub mod Passing
pub mod Changed
pub mod Handled
pub mod HandledSteps
pub mod FollowedEndings
pub mod Pieces
