pub mod Asking
pub mod Least
pub mod Contents
pub mod Cells
pub mod Growing
