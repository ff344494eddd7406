pub mod Declarations
pub mod Facts
