pub mod PackageLemmas
