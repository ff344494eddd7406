pub mod Links
pub mod Rows
pub mod Lineage
pub mod Projects
