pub mod Openings
pub mod Merging
