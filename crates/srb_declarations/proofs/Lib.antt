pub mod Equations
pub mod Examples
