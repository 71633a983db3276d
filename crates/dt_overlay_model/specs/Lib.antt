-- what callers read, in this order
pub mod Walk
pub mod InTurn
pub mod Joining
pub mod Rows
-- inside
pub mod Found
