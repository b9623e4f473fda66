pub mod Numbers
pub mod Matrix
pub mod Marks
pub mod Tabled
pub mod InTurn
