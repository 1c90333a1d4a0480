pub mod Headed
pub mod TraceLemmas
pub mod Kept
pub mod KeptLemmas
mod KeptExamples
pub mod AlikeLemmas
pub mod AlikePieces
pub mod PlainWords
pub mod TextLines
pub mod NumberText
pub mod OctetText
pub mod LineFacts
pub mod RecordBack
pub mod PortFacts
pub mod SettingFacts
pub mod SettingLines
pub mod SettingWords
pub mod SettingsBack
pub mod VlansBack
pub mod TraceFacts
pub mod ConfigBack
pub mod ReadsBack
pub mod TextBack
mod LineExamples
mod OutputExamples
