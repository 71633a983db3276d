-- what callers read, in this order
pub mod Said
