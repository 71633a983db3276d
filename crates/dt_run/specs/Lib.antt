-- what callers read, in this order
pub mod Task
pub mod Job
pub mod Run
pub mod Laws
-- inside
pub mod Showing
pub mod Outcomes
