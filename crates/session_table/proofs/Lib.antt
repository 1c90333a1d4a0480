pub mod Orders
pub mod Counts
pub mod Kept
pub mod Changes
pub mod Tables
