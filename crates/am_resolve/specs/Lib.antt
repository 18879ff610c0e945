pub mod Narrowing
pub mod Ranking
