pub mod Signatures
pub mod Queries
