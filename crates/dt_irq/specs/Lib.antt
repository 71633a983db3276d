-- what callers read, in this order
pub mod Cells
pub mod Seen
pub mod Left
pub mod RoutesLeft
-- inside
pub mod Spaces
pub mod Merging
