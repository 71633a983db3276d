-- what callers read, in this order
pub mod Compile
pub mod Apply
pub mod Build
pub mod Decompile
pub mod Laws
pub mod Limits
pub mod AppliedBytes
