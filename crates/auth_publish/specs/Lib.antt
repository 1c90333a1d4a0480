pub mod Changes
pub mod Posted
pub mod Told
pub mod History
pub mod Feeds
pub mod Deeds
pub mod Rules
