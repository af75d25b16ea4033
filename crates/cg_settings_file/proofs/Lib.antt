pub mod Tables
pub mod SeedLemmas
