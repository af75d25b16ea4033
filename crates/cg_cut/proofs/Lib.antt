pub mod Runs
pub mod Wholes
pub mod Texts
