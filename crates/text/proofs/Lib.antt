pub mod Copy
pub mod Digits
pub mod Numbers
pub mod Hex
pub mod Room
