pub mod BuiltTrees
pub mod Outcomes
pub mod BuiltOverlays
pub mod OverlayOutcomes
