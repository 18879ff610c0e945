mod Said
mod Commutes
mod Rows
mod Values
mod Permuted
mod Places
mod Keys
mod Puts
mod Seen
mod Shapes
mod Kept
mod Rising
mod Attaches
mod Texts
mod Found
mod Failures
pub mod Upserts
pub mod Selects
pub mod Reading
mod Untold
mod Begins
mod Images
