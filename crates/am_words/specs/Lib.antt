pub mod Options
pub mod Values
pub mod Parsed
pub mod Grammar
pub mod Answers
pub mod Ranges
