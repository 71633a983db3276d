pub mod Steps
pub mod Bodies
pub mod Items
pub mod Wholes
pub mod Targets
pub mod NewFragments
pub mod OverlaySteps
pub mod ArenaSteps
