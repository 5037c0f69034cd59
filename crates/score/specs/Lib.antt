pub mod Places
pub mod Limits
pub mod Less
pub mod Sum
