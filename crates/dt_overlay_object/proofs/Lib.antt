pub mod Elements
pub mod Contents
pub mod OwnNumbers
