pub mod Names
pub mod Circular
pub mod Members
pub mod Steps
