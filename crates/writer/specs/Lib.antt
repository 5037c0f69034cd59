pub mod Format
pub mod Formats
pub mod Readers
