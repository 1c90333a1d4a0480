pub mod FormLemmas
pub mod TopLemmas
pub mod RaceLemmas
pub mod ServeLemmas
pub mod LoadLemmas
pub mod CompleteLemmas
