pub mod Lists
pub mod Merging
pub mod Gathering
pub mod Keeping
pub mod Sums
