pub mod Entries
pub mod OneMore
pub mod Writing
pub mod WeightLemmas
