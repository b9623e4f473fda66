pub mod Links
pub mod Sending
pub mod Establishment
pub mod Receiving
pub mod Timing
pub mod AnyPeer
