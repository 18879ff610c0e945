pub mod Made
pub mod Rights
