pub mod Shares
pub mod InPhase
pub mod Lanes
pub mod Workers
pub mod Lines
pub mod Standing
pub mod Raced
