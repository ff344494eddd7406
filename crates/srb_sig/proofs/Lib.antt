pub mod Chains
pub mod Equations
pub mod Examples
pub mod Products
pub mod Views
