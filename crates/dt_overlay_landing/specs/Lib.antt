-- what callers read, in this order
pub mod Marks
pub mod Turns
pub mod Values
pub mod Landed
pub mod SymbolLanding
