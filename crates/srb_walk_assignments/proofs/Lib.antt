pub mod Assigning
