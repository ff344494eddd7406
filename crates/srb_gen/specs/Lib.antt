pub mod Texts
pub mod Messages
pub mod Generated
pub mod Tallies
