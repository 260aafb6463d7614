pub mod Filed
pub mod Report
