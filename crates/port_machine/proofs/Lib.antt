pub mod Scan
pub mod Sends
pub mod Loop
pub mod Ready
