pub mod Places
pub mod Changes
pub mod Settling
pub mod Rows
