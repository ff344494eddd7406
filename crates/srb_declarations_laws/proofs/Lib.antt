mod Examples
mod Kept
pub mod Mixins
pub mod Places
pub mod Programs
