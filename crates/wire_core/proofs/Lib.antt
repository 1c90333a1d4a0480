pub mod DigitLemmas
pub mod StationLemmas
