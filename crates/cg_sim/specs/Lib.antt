pub mod ScriptLines
pub mod Script
pub mod Told
pub mod Steps
pub mod Simulated
pub mod Runs
pub use Rattle.cg_types.specs.Fault
pub use Rattle.cg_messages.specs.Kind
pub use Rattle.cg_core.specs.SettingsValues as Values
pub use Rattle.cg_places.specs.Step
pub use Rattle.cg_world.specs.Acting
pub use Rattle.cg_world.specs.World
pub use Rattle.cg_links.specs.Counted
pub use Rattle.cg_links.specs.Lines
pub use Rattle.cg_text.specs.Gives
