pub mod Bits
pub mod Faith
pub mod OfMark
pub mod OfOptions
pub mod OfTrial
pub mod Order
pub mod Readers
