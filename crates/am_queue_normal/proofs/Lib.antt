pub mod Adding
pub mod Finding
pub mod Grouping
pub mod Keys
pub mod Ordered
pub mod Removing
pub mod Soonest
