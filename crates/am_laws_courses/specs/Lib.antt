pub mod Course
pub mod Fold
pub mod Turns
pub mod Laws
