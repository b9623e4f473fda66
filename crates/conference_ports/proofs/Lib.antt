pub mod Positions
pub mod Indexes
