pub mod Link
pub mod Clock
pub mod Post
pub mod Stored
pub mod Sockets
