pub mod Session
pub mod Judge
pub mod Reply
pub mod Answered
