pub mod Whole
pub mod Patterns
pub mod Bits
pub mod Doubles
pub mod Correct
pub mod Monotone
pub mod Square
