pub mod Gathered
pub mod InOrder
pub mod OnlyOne
pub mod Rules
