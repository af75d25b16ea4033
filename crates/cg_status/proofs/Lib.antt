pub mod TokenLemmas
pub mod ChainLemmas
pub mod DocumentLemmas
