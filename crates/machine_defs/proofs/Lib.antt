pub mod Growth
pub mod Laws
pub mod Forms
pub mod Goes
pub mod Round
pub mod Seconds
pub mod Asking
pub mod Serving
pub mod Over
pub mod Turning
pub mod Born
pub mod Bound
pub mod Idle
pub mod Counts
pub mod Filling
pub mod Reading
pub mod Keeping
pub mod Handing
pub mod Leaving
pub mod Walking
mod Worked
mod WorkedRows
