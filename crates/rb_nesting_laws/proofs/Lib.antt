pub mod Rows
pub mod Goes
pub mod Derived
pub mod Laws
mod Examples
