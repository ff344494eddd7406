mod Examples
mod Kept
pub mod Places
