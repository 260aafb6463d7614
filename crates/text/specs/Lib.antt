pub mod Parts
pub mod Values
pub mod Requests
pub mod Keys
pub mod Lines
pub mod Written
