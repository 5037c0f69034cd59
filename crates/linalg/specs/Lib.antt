pub mod Mean
pub mod Normalize
