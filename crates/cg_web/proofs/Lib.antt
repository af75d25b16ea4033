mod FieldLemmas
pub mod RequestLemmas
pub mod SeatLemmas
mod ShowingLemmas
mod SpeakLemmas
