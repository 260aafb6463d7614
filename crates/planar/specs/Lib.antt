pub mod Division
pub mod Rows
pub mod Basis
pub mod Numbering
