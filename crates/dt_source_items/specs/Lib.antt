-- what callers read, in this order
pub mod Said
pub mod Gathered
pub mod Spelled
pub mod Rows
