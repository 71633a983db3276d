-- inside
pub mod Steps
