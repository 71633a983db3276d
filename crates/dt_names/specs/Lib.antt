-- what callers read, in this order
pub mod Fault
pub mod Paths
pub mod Sink
