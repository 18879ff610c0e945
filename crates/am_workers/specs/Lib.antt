pub mod Serving
pub mod Work
