pub mod Order
pub mod Places
pub mod Meaning
pub mod Room
