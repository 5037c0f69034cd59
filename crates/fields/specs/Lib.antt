pub mod Fields
pub mod Packing
pub mod Wide
