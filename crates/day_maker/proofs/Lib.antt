pub mod Noting
pub mod Making
pub mod Coming
