pub mod Equations
pub mod Stays
pub mod Types
