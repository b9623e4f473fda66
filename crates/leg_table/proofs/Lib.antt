pub mod LegKeyLemmas
pub mod KeptNumberLemmas
pub mod LegWordLemmas
pub mod DueBoundLemmas
pub mod LineScanLemmas
