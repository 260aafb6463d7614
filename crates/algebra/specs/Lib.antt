pub mod Ring
pub mod Integers
pub mod Divisors
pub mod Quadratic
pub mod Euclidean
pub mod Statements
