pub mod Conflicts
pub mod Errors
pub mod Tables
