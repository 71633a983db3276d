-- inside
pub mod Asking
pub mod Least
pub mod Growth
