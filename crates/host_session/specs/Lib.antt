pub mod Sits
pub mod Settles
pub mod Shows
