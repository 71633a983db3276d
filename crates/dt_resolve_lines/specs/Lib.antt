-- what callers read, in this order
pub mod Lines
pub mod AllLines
pub mod Listed
pub mod Asked
-- inside
pub mod Given
