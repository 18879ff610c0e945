pub mod Kept
pub mod Followed
pub mod Taken
pub mod Formed
pub mod Lines
pub mod Unique
pub mod Entries
