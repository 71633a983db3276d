-- what callers read, in this order
pub mod Buses
pub mod Left
