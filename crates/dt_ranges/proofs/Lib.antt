pub mod RangesMap
pub mod Rising
pub mod Sent
pub mod Listed
