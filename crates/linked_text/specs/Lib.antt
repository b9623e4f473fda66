pub mod LinkTimers
pub mod LinkLines
pub mod LinkEffects
pub mod LinkReport
