-- what callers read, in this order
pub mod Meant
pub mod Refusals
-- inside
pub mod Building
pub mod Fragments
