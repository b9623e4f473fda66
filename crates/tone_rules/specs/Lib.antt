pub mod Tables
pub mod CallTones
