pub mod Starts
pub mod Intents
pub mod Adds
pub mod Laws
