pub mod Double
pub mod Digits
pub mod Root
