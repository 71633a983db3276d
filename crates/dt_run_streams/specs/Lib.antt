-- what callers read, in this order
pub mod Files
pub mod Read
pub mod Told
pub mod Report
