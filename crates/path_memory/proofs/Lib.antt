pub mod MatrixOfLayout
pub mod CommonSlot
pub mod Added
pub mod Kept
pub mod Places
