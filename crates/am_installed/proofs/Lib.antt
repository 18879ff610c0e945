pub mod Changed
pub mod Orders
pub mod Placing
pub mod Rising
pub mod Searching
