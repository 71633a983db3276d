-- what callers read, in this order
pub mod Texts
pub mod Cells
pub mod Cuts
