pub mod Digits
pub mod Reading
pub mod Back
pub mod Light
