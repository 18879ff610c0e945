pub mod Draws
pub mod Devices
pub mod Requests
pub mod Bodies
pub mod Calls
pub mod Desks
pub mod Drills
pub mod Tallies
