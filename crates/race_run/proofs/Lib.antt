pub mod ReadLemmas
pub mod AloneLemmas
pub mod StepLemmas
pub mod SoundLemmas
pub mod FateLemmas
pub mod PieceLemmas
pub mod EndLemmas
pub mod CountLemmas
