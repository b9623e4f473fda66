pub mod EventNumbers
pub mod FileOrder
