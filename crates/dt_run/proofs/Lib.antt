pub mod InputFaults
pub mod Outcomes
pub mod Performing
pub mod Runs
