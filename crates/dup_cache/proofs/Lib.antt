pub mod Lists
pub mod Newest
