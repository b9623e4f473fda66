pub mod NonBlocking
