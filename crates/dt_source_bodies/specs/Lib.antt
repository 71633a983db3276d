-- what callers read, in this order
pub mod Refusals
pub mod Reading
pub mod OverlayReading
pub mod Arena
