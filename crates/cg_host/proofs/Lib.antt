pub mod GenerationLemmas
