pub mod SessionLemmas
pub mod SoughtLemmas
pub mod AnswerLemmas
pub mod JudgeLemmas
pub mod ReplyLemmas
