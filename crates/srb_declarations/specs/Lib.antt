pub mod Declarations
pub mod Examples
