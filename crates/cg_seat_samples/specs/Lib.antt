pub use Rattle.cg_locked.specs.Seats
