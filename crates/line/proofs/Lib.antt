pub mod Near
pub mod Baseline
