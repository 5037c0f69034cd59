pub mod Score
pub mod Book
pub mod Calls
pub mod Rule
pub mod Beyond
