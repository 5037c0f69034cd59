pub mod Demand
pub mod OldBits
pub mod Signs
