pub mod Led
pub mod Tabled
pub mod Indexed
pub mod Valued
pub mod Kinded
pub mod Children
pub mod PathTexts
