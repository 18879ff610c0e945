pub mod Literal
pub mod Paths
pub mod Adding
