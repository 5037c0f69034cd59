pub mod Clear
pub mod ClearOrder
pub mod Under
pub mod Winners
pub mod Along
pub mod Picked
pub mod Runs
pub mod Beyond
