pub mod EditedBytes
pub mod Inputs
pub mod Objects
pub mod OverlayStages
pub mod Stages
pub mod Turns
