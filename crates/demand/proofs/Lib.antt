pub mod Placed
pub mod Listed
pub mod Whole
pub mod Demanded
pub mod Old
pub mod Signs
