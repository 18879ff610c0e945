pub mod Inbox
pub mod Results
pub mod Sooner
pub mod Sound
pub mod Taken
