pub mod Tests
pub mod Zero
pub mod Views
pub mod Nan
pub mod Order
pub mod Lists
