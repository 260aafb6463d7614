pub mod Elements
pub mod Meaning
pub mod Answers
