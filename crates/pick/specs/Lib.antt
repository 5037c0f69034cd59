pub mod Run
pub mod Opening
pub mod Trial
pub mod Indices
pub mod Accepted
