pub mod Book
pub mod Locked
