mod ChainLemmas
mod EscapedLemmas
