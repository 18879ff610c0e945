pub mod Groups
pub mod Keys
pub mod Lookups
pub mod Members
pub mod Lists
pub mod Standing
