-- what callers read, in this order
pub mod Landings
pub mod Objects
pub mod Steps
pub mod Laws
pub mod Refusals
pub mod Outcomes
pub mod Writing
