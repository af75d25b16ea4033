pub mod World
pub mod Acting
pub mod Consistent
pub mod Terms
pub mod Headline
pub mod WorldLaws
pub mod SingleActions
pub mod Taken
pub mod WorkedRuns
pub mod Exchange
pub mod Merging
pub use Rattle.cg_types.specs.Answer
pub use Rattle.cg_entry.specs.History
pub use Rattle.cg_core.specs.Borrowed
pub use Rattle.cg_core.specs.Step
pub use Rattle.cg_places.specs.Exchange as PlacesExchange
