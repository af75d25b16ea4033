pub mod BytesHandles
pub mod LooseValues
pub mod NodeHandles
