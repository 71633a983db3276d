-- what callers read, in this order
pub mod Answers
pub mod Above
pub mod World
pub mod Regions
pub mod Interrupts
pub mod Specifiers
pub mod Faults
pub mod Laws
pub mod Rows
