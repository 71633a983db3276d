pub mod Tables
mod Names
pub mod Faults
mod PathTexts
mod Streams
pub mod Sinks
