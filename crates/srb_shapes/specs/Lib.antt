pub mod Lineages
pub mod Parts
pub mod Comparing
pub mod Shapes
