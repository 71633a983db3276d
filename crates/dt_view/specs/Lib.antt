-- what callers read, in this order
pub mod Worlds
pub mod Ways
-- inside
pub mod Tables
