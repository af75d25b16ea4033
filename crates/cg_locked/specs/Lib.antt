pub mod Seat
pub mod Entry
pub mod Board
pub mod Shared
pub mod Limits
pub mod Log
pub mod Replaying
pub mod Seats
pub use Rattle.cg_types.specs.Answer
pub use Rattle.cg_core.specs.Values
pub use Rattle.cg_history.specs.Confirming
pub use Rattle.cg_history.specs.History
pub use Rattle.cg_history.specs.Items
pub use Rattle.cg_views.specs.Lists
pub use Rattle.cg_table.specs.Puts
pub use Rattle.cg_table.specs.Values as TableValues
