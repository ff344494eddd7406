pub mod Steps
pub mod Variants
