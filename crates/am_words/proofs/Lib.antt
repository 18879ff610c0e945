pub mod OptionLemmas
pub mod ParsedLemmas
pub mod NumberLemmas
