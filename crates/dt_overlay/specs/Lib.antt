-- what callers read
pub mod Applying
