-- what callers read, in this order
pub mod Refusals
-- inside
pub mod Paths
pub mod Waiting
pub mod Mirrored
pub mod Cells
