pub mod Costs
pub mod General
pub mod Owners
pub mod Ranks
pub mod Standing
pub mod Stopped
pub mod Tops
