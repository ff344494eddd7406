pub mod Totals
pub mod Moves
pub mod Steps
