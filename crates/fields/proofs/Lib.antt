pub mod Reading
pub mod Writing
pub mod Back
pub mod Packing
