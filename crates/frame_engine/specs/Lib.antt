pub mod Frames
pub mod Carries
pub mod Ports
pub mod Playing
pub mod Resting
