pub mod Equations
pub mod Mixins
