pub mod Logging
pub mod Showing
pub mod Confirming
pub mod Folding
pub mod SeatLemmas
pub mod Going
