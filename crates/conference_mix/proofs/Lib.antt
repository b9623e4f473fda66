pub mod Sums
pub mod RoomTotals
pub mod SeatFacts
