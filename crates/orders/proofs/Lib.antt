pub mod Cases
pub mod Shorter
pub mod Told
