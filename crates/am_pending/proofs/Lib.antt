pub mod Lists
pub mod Changes
pub mod Indexing
pub mod Asking
pub mod Using
