pub mod FlushLemmas
pub mod AnyPeerLemmas
