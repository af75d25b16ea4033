pub mod Answers
pub mod Policy
pub mod Parts
pub mod Shown
pub mod Changes
pub mod Serving
pub mod Requests
