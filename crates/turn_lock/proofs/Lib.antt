pub mod ViewLemmas
pub mod NumberLemmas
pub mod RuleFacts
pub mod MoveLemmas
pub mod TurnLemmas
pub mod WaitingLemmas
