pub mod Decided
pub mod Entries
