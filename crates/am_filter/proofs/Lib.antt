pub mod Hosts
pub mod Reasons
pub mod Repeats
pub mod Unions
