pub mod Gives
pub mod Words
pub mod Limits
pub mod Printed
pub mod Written
pub use Rattle.hex.specs.Hex
pub use Rattle.cg_types.specs.Text
pub use Rattle.cg_links.specs.Counted
