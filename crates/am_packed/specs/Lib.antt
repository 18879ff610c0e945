pub mod Forms
pub mod Numbers
pub mod Texts
pub mod Lists
pub mod Intents
pub mod Filters
pub mod Outcomes
pub mod Parts
