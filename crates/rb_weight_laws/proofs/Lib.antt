pub mod Steps
pub mod Tokens
pub mod Rows
pub mod Names
pub mod Forms
pub mod Weights
pub mod Laws
pub mod Examples
