pub mod Walk
pub mod Closed
pub mod Exchange
pub mod Freed
pub mod Listing
