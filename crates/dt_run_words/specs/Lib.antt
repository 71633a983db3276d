-- what callers read, in this order
pub mod Asked
pub mod Words
-- inside
pub mod Usages
