pub mod Bools
pub mod Numbers
pub mod Pigeonhole
pub mod Laws
pub mod Marks
pub mod Tables
pub mod TurnLemmas
