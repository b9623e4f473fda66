pub mod Bridge
pub mod Rooms
pub mod Seats
