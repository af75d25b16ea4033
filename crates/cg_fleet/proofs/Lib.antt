pub mod CarryLemmas
pub mod ChanceLemmas
pub mod MoveLemmas
pub mod RelayLemmas
pub mod StartLemmas
