pub mod Moved
pub mod Listed
