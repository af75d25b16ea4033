pub mod GoingLemmas
pub mod StepLemmas
pub mod TellingLemmas
