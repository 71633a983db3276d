pub mod NodePlaces
pub mod LookedUp
pub mod Steps
pub mod NamesBehind
pub mod Numbers
pub mod Walked
pub mod Props
