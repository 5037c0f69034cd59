pub mod Placed
pub mod Reading
pub mod Formed
pub mod View
pub mod Whole
pub mod Short
pub mod Bits
