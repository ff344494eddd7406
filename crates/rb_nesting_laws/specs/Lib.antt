pub mod Parts
pub mod Nesting
pub mod Examples
