pub mod Paths
pub mod Projects
pub mod Uris
pub mod Documents
pub mod Rows
pub mod Changes
