pub mod Counts
pub mod Doings
pub mod Heads
pub mod Struck
pub mod Turns
