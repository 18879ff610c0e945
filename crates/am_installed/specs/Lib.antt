pub mod Installed
pub mod Places
