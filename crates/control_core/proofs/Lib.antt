pub mod Lemmas
pub mod Closing
pub mod Linking
mod Passing
mod Standing
mod Walking
mod Answering
mod Hearing
pub mod Acting
pub mod Replying
pub mod Requesting
pub mod Rolling
pub mod Shortness
pub mod Quiet
