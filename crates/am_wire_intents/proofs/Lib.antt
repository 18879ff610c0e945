pub mod Entries
pub mod Slashes
pub mod ShortTexts
