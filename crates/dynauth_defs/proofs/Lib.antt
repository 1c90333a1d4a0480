mod Examples
pub mod AnsweredLemmas
pub mod ClientLemmas
