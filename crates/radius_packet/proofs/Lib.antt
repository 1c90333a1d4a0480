pub mod ShortValues
pub mod HeaderOnly
