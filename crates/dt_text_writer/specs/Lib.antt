-- what callers read, in this order
pub mod Written
