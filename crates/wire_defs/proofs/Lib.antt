mod Examples
pub mod NumberLemmas
pub mod EthernetLemmas
pub mod EapolLemmas
pub mod EapLemmas
pub mod OutsideLemmas
pub mod TextLemmas
