pub mod Messages
pub mod EncodingFacts
pub mod RowFacts
pub mod Digits
pub mod Writable
