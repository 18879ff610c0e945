pub mod Links
pub mod Memory
pub mod Resting
