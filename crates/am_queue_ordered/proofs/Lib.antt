pub mod Counting
pub mod Deadlines
pub mod Outcomes
pub mod Waiting
pub mod Settling
