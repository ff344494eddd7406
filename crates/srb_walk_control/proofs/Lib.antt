pub mod Branching
pub mod Casing
pub mod Guarding
pub mod Looping
pub mod Sequencing
