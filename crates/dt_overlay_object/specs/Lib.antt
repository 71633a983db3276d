-- what callers read, in this order
pub mod Plans
pub mod Objects
pub mod Stages
