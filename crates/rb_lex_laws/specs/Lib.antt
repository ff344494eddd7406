pub mod Levels
pub mod Longest
pub mod Numbers
pub mod Operators
pub mod Tokens
pub mod Words
