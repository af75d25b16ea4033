pub mod TextLemmas
pub mod SeedLemmas
pub mod ClusterLemmas
pub mod LinkLemmas
mod NumberLemmas
