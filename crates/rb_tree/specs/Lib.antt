pub mod Nodes
pub mod Tokens
pub mod Trees
