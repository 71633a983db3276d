-- what callers read, in this order
pub mod Applying
pub mod Merging
pub mod Sources
pub mod NamedTrees
pub mod CompiledTrees
pub mod OverlayTrees
pub mod Bodies
pub mod Fragments
pub mod ShortValues
pub mod OverlayChecks
pub mod LeastNumbers
-- inside
pub mod NamedSample
pub mod ObjectSample
pub mod SampleSources
pub mod Premises
