pub mod Arrived
pub mod Homes
pub mod Post
pub mod Ending
pub mod Run
pub mod Ends
