pub mod Faults
pub mod Table
pub mod Told
pub mod Reading
pub mod Honest
pub mod Image
pub mod Failing
pub mod Fresh
