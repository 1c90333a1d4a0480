pub mod Hearing
pub mod Making
