pub mod Entries
pub mod Views
pub mod Rule
pub mod Locks
pub mod Moves
pub mod Waiting
