pub mod LegKeys
pub mod KeptNumbers
pub mod DueBounds
pub mod KeyedLegs
