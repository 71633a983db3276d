-- what callers read, in this order
pub mod Shape
pub mod Grown
pub mod Listing
pub mod Growing
pub mod Table
