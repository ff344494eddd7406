pub mod ArrangedExamples
pub mod Loaded
pub mod LoadedExamples
pub mod Placed
pub mod PlacedExamples
pub mod Summaries
