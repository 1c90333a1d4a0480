pub mod Packet
pub mod Reading
pub mod Digest
pub mod Attributes
pub mod Message
pub mod Grant
pub mod InRange
pub mod Parsed
