pub mod Request
pub mod Waits
pub mod Age
pub mod Answer
pub mod Said
pub mod Asking
