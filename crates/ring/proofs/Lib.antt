pub mod Limits
pub mod Places
pub mod Checks
pub mod Rings
