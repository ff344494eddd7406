pub mod Fronts
pub mod Places
pub mod Refused
pub mod Examples
pub mod Begun
pub mod NoneBegins
