pub mod Frames
pub mod OpenLines
pub mod Reached
pub mod Settled
pub mod Steps
pub mod Walks
