pub mod Text
pub mod Weights
pub mod Submitting
pub mod Limits
pub use Rattle.cg_history.specs.Items
pub use Rattle.cg_history.specs.History
pub use Rattle.cg_journal.specs.Text as JournalText
pub use Rattle.cg_locked.specs.Entry
pub use Rattle.cg_locked.specs.Shared
pub use Rattle.cg_links.specs.Counted
