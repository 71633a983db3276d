pub mod ListedCells
pub mod ToldFixups
pub mod ToldLocalFixups
pub mod MirrorWalks
pub mod OneList
