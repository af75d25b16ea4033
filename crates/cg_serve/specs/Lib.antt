pub mod Lives
pub use Rattle.cg_links.specs.Counted
pub use Rattle.cg_text.specs.Written
pub use Rattle.cg_host.specs.Kept
