pub mod Nearest
pub mod Settings
pub use Rattle.cg_types.specs.Answer
pub use Rattle.cg_types.specs.Numbers
pub use Rattle.cg_types.specs.Text
pub use Rattle.cg_entry.specs.Entry
pub use Rattle.cg_entry.specs.State
pub use Rattle.cg_core.specs.SettingsValues
