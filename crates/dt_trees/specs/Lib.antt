-- what callers read, in this order
pub mod Placed
pub mod Views
pub mod Trees
