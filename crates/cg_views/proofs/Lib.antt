pub mod Beginnings
pub mod RisingPuts
pub mod Adding
pub mod Showing
pub mod Reading
