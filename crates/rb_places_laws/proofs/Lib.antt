pub mod ByNode
mod Examples
mod Parts
pub mod Paths
pub mod Programs
pub mod TreePlaces
