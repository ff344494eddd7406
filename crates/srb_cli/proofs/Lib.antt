pub mod Bounded
pub mod Complete
pub mod Counts
pub mod Folders
pub mod GeneratedSteps
pub mod Lasting
pub mod TooMany
