pub mod SeedsLine
pub mod TextLemmas
pub mod ToldLemmas
pub mod StepLemmas
pub mod SimulatingLemmas
pub mod Honest
pub mod RunLemmas
