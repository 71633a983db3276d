pub mod CarriedOut
pub mod Told
