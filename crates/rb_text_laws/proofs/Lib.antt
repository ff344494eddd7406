pub mod Characters
pub mod TokenPlaces
pub mod Shown
pub mod Depths
pub mod Answers
pub mod Verdicts
pub mod Examples
