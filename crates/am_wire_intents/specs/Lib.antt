pub mod Components
pub mod Extras
pub mod Flags
pub mod Intents
pub mod Filters
