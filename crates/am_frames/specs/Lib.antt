pub mod Announced
pub mod Fields
pub mod FrameSpans
pub mod Framing
pub mod Head
