pub mod Ideal
pub mod Answers
