pub mod Sums
pub mod Changes
pub mod Writing
pub mod Sides
