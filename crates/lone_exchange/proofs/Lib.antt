pub mod AtLemmas
pub mod LineLemmas
