pub mod Form
pub mod Top
