-- what callers read, in this order
pub mod Expression
pub mod Fits
pub mod Numbers
pub mod Operands
-- inside
pub mod Evaluation
