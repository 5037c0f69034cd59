pub mod Constants
pub mod Finite
pub mod Quadratic
pub mod Rank
pub mod Measure
pub mod Ratio
