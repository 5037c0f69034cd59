pub mod Ways
pub mod Left
pub mod Measured
pub mod View
pub mod Signs
pub mod Beyond
