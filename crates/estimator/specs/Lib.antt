pub mod Family
pub mod Double
pub mod Ranks
pub mod Marks
pub mod Numbers
pub mod Entry
