pub mod Stands
pub mod Moves
pub mod Seconds
pub mod Reads
pub mod Follows
pub mod Cares
