pub mod Words
pub mod Scoring
