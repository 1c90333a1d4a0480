pub mod Runs
pub mod Runners
pub mod Ending
pub mod Counts
pub mod Run
