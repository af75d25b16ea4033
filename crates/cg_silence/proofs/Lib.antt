pub mod WindowLemmas
pub mod HeardLemmas
pub mod ChunkLemmas
pub mod WalkLemmas
