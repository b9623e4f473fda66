pub mod RowsAfter
pub mod Starts
pub mod Overlays
pub mod Turns
pub mod Shuffles
pub mod Slots
pub mod SlotRows
