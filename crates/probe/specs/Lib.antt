pub mod Flat
pub mod Plain
