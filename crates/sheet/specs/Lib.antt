pub mod Marks
pub mod Distance
pub mod Sheets
pub mod Owed
