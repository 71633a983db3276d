pub mod TextCuts
pub mod CellTexts
pub mod OnePath
pub mod NoNodes
