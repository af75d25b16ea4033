pub mod Answering
pub mod Walking
pub mod Taking
pub mod Changes
pub use Rattle.cg_types.specs.Answer
pub use Rattle.cg_types.specs.Rising
pub use Rattle.cg_messages.specs.Members
