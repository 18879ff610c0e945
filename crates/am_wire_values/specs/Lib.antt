pub mod Fields
pub mod Names
pub mod Intents
pub mod Filters
pub mod Requests
pub mod Rules
pub mod Replies
