pub mod Chance
pub mod Moves
pub mod Relay
pub mod Spreading
pub mod Starting
