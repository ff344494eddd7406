pub mod Examples
pub mod Placed
