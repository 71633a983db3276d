pub mod Told
pub mod WordTexts
pub mod Going
pub mod Nodes
pub mod OneListing
pub mod Questions
pub mod OneAnswer
