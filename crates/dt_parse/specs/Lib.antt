-- what callers read, in this order
pub mod Reading
-- inside
pub mod Machine
pub mod Turns
pub mod Standing
pub mod Nested
pub mod Leading
pub mod Openings
pub mod Numbers
pub mod Starts
