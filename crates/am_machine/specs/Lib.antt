pub mod Managed
pub mod Beginnings
pub mod Keeping
pub mod Requests
pub mod Archives
