-- what callers read, in this order
pub mod Written
pub mod Refusals
pub mod Sharing
-- inside
pub mod Parts
pub mod Rows
