pub mod LinkLineLemmas
pub mod PlainLineLemmas
pub mod InTurnLemmas
pub mod SentLemmas
pub mod Fronts
