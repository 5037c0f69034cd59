pub mod Places
pub mod Ratio
