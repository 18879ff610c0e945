pub mod Stored
pub mod Fresh
pub mod Kept
pub mod FoundRows
pub mod Shown
