pub mod Bounds
pub mod Intents
pub mod Printing
pub mod Reading
pub mod Uris
