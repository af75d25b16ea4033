pub mod Version
pub use Rattle.cg_types.specs.Answer
