pub mod Giving
pub mod Going
pub mod Chain
