pub mod InformationElement
pub mod Grammar
pub mod Reading
pub mod Front
pub mod Limits
