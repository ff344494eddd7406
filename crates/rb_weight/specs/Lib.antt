pub mod Effects
pub mod Limits
pub mod Scans
pub mod Sorts
pub mod Weights
