pub mod Acts
pub mod Callers
pub mod OnlyReads
pub mod OpeningLaws
pub mod Places
pub mod Uids
