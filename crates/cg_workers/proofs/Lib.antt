pub mod RoundLemmas
pub mod WordLemmas
pub mod EachLemmas
pub mod WorkLemmas
pub mod Keeping
pub mod TickLemmas
