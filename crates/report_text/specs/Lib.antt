pub mod Report
pub mod RunReport
