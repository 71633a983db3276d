-- what callers read, in this order
pub mod Targets
pub mod FlatTargets
pub mod Known
pub mod NodeNumbers
