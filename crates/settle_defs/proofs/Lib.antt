mod Keeping
mod Naming
mod Speaking
pub mod SettleLaws
