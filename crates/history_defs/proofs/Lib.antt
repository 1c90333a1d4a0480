pub mod OutputLemmas
pub mod PlaceLemmas
mod Worked
mod Limits
