pub mod Holds
pub mod Finds
pub mod Does
pub mod Follows
pub mod Idles
