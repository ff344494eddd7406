pub mod Equations
pub mod Examples
pub mod Standing
