pub mod PartLemmas
pub mod EventLemmas
pub mod FrameLemmas
pub mod ToolLemmas
mod HandLemmas
mod KeepingLemmas
pub mod AloneLemmas
