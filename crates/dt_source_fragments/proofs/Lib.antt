pub mod NamesMade
pub mod Marks
pub mod FragmentSteps
