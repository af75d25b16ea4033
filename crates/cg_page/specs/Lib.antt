pub mod Escaped
pub mod Drawn
pub mod Rows
pub mod Page
pub use Rattle.cg_types.specs.EndpointText
pub use Rattle.cg_types.specs.Key
pub use Rattle.cg_tokens.specs.Tokens
