pub mod Options
pub mod Trial
pub mod Marks
