pub mod Roll
pub mod Judged
pub mod Known
pub mod Found
pub mod Sought
pub mod Lines
pub mod Replies
