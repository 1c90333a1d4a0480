pub mod Config
pub mod Drop
pub mod Event
pub mod Sent
pub mod Frames
