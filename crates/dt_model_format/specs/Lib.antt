-- what callers read, in this order
pub mod Laws
pub mod Strings
pub mod Samples
