pub mod Choice
pub mod Segment
pub mod Segments
pub mod Workers
pub mod Pools
pub mod Merging
pub mod Jobs
pub mod WorkerResults
