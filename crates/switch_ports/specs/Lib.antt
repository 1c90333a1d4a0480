pub mod Ports
pub mod Index
