pub mod Items
pub mod Greatest
pub mod Confirming
pub mod History
pub mod Laws
pub use Rattle.cg_types.specs.Answer
pub use Rattle.cg_core.specs.Step
pub use Rattle.cg_core.specs.Replies
