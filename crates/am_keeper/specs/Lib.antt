pub mod Rows
pub mod Ranking
pub mod Places
pub mod Keeping
pub mod Memory
pub mod Shelf
pub mod Asking
