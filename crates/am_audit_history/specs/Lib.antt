pub mod Histories
pub mod Lines
pub mod Reading
pub mod Replays
