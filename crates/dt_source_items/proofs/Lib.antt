mod Gathering
pub mod PlaceLists
