-- what callers read, in this order
pub mod LocalFixups
-- inside
pub mod Fixups
pub mod Fragments
pub mod Symbols
