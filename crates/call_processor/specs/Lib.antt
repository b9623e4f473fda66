pub mod Borrowed
pub mod Parts
pub mod Work
pub mod Frames
pub mod WorkerOutputs
pub mod Keeping
pub mod Alone
