pub mod Answers
pub mod Keys
pub mod Hashings
pub mod KeyLaws
pub mod Once
pub mod Orders
pub mod Records
