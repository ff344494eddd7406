pub mod Depths
pub mod Verdicts
pub mod Places
pub mod Examples
