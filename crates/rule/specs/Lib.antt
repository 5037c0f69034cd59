pub mod Refusal
pub mod Answer
pub mod Order
pub mod Arith
pub mod Lists
