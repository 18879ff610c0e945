pub mod Repeats
pub mod Bytes
pub mod Taken
pub mod Holders
pub mod Held
pub mod Apart
pub mod FewFilters
pub mod Soundness
