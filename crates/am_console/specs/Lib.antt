pub mod Devices
pub mod Files
pub mod Setbacks
pub mod Telling
