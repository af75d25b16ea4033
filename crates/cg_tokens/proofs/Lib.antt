pub mod HexLemmas
pub mod TextLemmas
pub mod TokenTextLemmas
pub mod RingLemmas
pub mod ClaimLemmas
pub mod RingLaws
pub mod OwnerLemmas
pub mod MovingLemmas
