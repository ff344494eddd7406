mod Examples
pub mod Parts
pub mod Programs
pub mod Trees
pub mod Types
mod Visits
