pub mod EapLemmas
