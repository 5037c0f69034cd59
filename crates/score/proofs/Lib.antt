pub mod Bounds
pub mod Walk
pub mod Least
pub mod Number
