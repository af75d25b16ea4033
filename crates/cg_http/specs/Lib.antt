pub mod Paths
pub mod Queries
pub mod Writes
pub mod Calls
pub mod Refusals
pub mod Asking
