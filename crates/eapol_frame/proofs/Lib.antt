pub mod EapolLemmas
