pub mod Ends
pub mod Greatest
pub mod Lasts
pub mod Leads
pub mod Octets
pub mod Parts
