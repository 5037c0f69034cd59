pub mod Marks
pub mod Distance
pub mod Forms
pub mod Owed
