pub mod Judging
pub mod Beyond
