pub mod Crossing
pub mod Edits
