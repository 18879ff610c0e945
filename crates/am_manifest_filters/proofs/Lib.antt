pub mod Each
pub mod Keys
pub mod StepsRead
pub mod Limits
