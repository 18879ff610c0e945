pub mod Texts
pub mod Tables
pub mod Rows
pub mod Filters
