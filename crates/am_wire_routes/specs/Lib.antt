pub mod Table
pub mod Routers
