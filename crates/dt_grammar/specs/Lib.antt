-- what callers read, in this order
pub mod Words
pub mod Grammar
pub mod Unchecked
pub mod Wanted
pub mod Relaxed
pub mod Moves
pub mod Descent
pub mod Strict
pub mod Faults
pub mod WordBytes
pub mod Exactly
pub mod Paths
pub mod Parsed
-- inside
pub mod Samples
pub mod FaultSamples
