pub mod SameNumbers
pub mod ByCaller
pub mod Joined
pub mod Workers
pub mod Confirmed
pub mod Running
pub mod Gates
mod Beginning
