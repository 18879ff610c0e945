pub mod Components
pub mod Manifests
pub mod Rights
pub mod RightsHeld
pub mod Devices
