pub mod Advances
pub mod KnownLemmas
