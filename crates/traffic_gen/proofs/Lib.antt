pub mod Counts
pub mod Digits
pub mod Fit
pub mod Octets
pub mod Spelling
pub mod Texts
