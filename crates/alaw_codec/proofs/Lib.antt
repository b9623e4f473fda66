pub mod Tables
pub mod TableEnds
