pub mod LinkLemmas
mod Queues
mod Stores
