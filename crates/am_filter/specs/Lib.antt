pub mod Answers
pub mod Patterns
pub mod Rows
