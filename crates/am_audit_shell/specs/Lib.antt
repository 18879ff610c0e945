pub mod Words
pub mod Contents
pub mod Lines
pub mod Audits
pub mod Naming
pub mod Held
