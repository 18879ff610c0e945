pub mod Calls
pub mod Clock
pub mod Counts
pub mod Files
pub mod Memory
pub mod Stored
