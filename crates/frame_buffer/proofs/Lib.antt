pub mod Frames
pub mod Parts
pub mod Rows
pub mod HalfRows
pub mod IdleLanes
