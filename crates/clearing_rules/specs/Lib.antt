pub mod UnknownReference
pub mod Restarting
pub mod Worked
