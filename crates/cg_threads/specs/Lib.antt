pub mod Left
pub mod Workers
pub mod Callers
pub mod Seats
pub mod Numbers
pub mod Laws
pub mod Ran
pub mod Worked
pub use Rattle.cg_workers.specs.Ends
pub use Rattle.cg_locked.specs.Seats as LockedSeats
pub use Rattle.cg_history.specs.Confirming
pub use Rattle.cg_locked.specs.Shared
