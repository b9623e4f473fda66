pub mod BoundFacts
pub mod Side
pub mod OrderFacts
pub mod Looks
pub mod Searches
pub mod Meanings
pub mod Padding
