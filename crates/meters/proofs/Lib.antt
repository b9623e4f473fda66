pub mod Zips
pub mod Told
pub mod Changes
pub mod Placed
pub mod Cursor
mod Registering
mod Rings
mod Appending
