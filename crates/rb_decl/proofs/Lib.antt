pub mod Turns
pub mod Weights
