-- what callers read, in this order
pub mod Arena
pub mod Numbers
pub mod Refusals
pub mod Planted
pub mod Sound
-- inside
pub mod Chain
pub mod Names
pub mod Rows
pub mod Values
