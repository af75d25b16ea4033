pub mod Counts
pub mod Counted
pub mod Trials
pub mod Laws
pub mod Lines
pub mod Taken
pub mod LineLaws
