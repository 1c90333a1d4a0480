pub mod Settings
pub mod Log
pub mod Served
pub mod Posted
pub mod Laws
