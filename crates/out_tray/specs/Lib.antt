pub mod Way
pub mod Tray
pub mod Layout
