pub mod Sound
pub mod Plans
pub mod Leaving
pub mod Roots
pub mod Numbers
pub mod Marks
pub mod Finds
