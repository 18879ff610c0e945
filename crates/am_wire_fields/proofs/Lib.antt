pub mod JsonValues
pub mod Listed
pub mod Each
