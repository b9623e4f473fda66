pub mod Carrying
pub mod Entries
pub mod Lookups
pub mod Steps
pub mod LookupsAfter
pub mod TablesAfter
pub mod TableRows
pub mod HeardLines
