pub mod Calls
pub mod Draws
pub mod Fitting
pub mod Lines
pub mod Messages
pub mod Traffic
