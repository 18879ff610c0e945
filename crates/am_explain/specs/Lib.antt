pub mod Asking
pub mod Contests
pub mod Costs
pub mod Tests
pub mod Laws
