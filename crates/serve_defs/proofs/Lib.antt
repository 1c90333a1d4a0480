pub mod Appended
pub mod Cuts
pub mod LogBack
mod Worked
