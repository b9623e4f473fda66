pub mod Rearranged
pub mod Chained
pub mod Exchanged
pub mod Turns
pub mod FreeSlots
pub mod SlotsOfTheRule
pub mod RuleOnTheMap
pub mod Connected
