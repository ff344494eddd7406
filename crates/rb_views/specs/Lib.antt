pub mod Calls
pub mod Laws
pub mod Paths
pub mod Places
pub mod Prefixes
pub mod Targets
