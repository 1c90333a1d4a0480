pub mod Settings
pub mod Reader
