pub mod RestLemmas
pub mod TableLemmas
