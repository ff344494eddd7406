pub mod Choices
pub mod Parents
mod Standing
mod Top
