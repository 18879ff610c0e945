pub mod Gathered
pub mod Led
