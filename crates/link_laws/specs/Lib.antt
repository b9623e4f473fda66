pub mod Window
pub mod Handshake
pub mod TwoLinks
pub mod Numberings
pub mod Renumbering
pub mod Epochs
