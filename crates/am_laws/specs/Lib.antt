pub mod Access
pub mod Laws
pub mod Refusals
