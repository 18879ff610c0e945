pub mod WordLemmas
pub mod Records
pub mod Outcomes
