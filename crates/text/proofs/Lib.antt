pub mod Cutting
pub mod Numerals
pub mod Entries
pub mod Chains
pub mod Course
pub mod Backward
pub mod Forward
