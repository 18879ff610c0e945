pub mod Audits
pub mod Marks
pub mod Judging
pub mod Matching
pub mod Judged
