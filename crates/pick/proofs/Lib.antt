pub mod Booking
pub mod Order
pub mod Written
pub mod View
pub mod Accepted
