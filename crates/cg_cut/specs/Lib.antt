pub mod Cutting
pub mod Whole
pub mod Laws
pub use Rattle.cg_links.specs.Counted
