pub mod Words
pub mod Activities
pub mod Accounts
pub mod Broadcasts
pub mod Pendings
pub mod Packages
pub mod Requests
