pub mod Roles
pub mod Weights
pub mod Laws
pub mod Examples
