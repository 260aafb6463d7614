pub mod Vectors
pub mod Forms
pub mod Statements
pub mod Determinants
