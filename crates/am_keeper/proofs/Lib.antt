pub mod Puts
pub mod InOrder
pub mod Replays
pub mod Slots
